-- `AsHost`: what C links promises what `host` promises.
pub mod AsHost
