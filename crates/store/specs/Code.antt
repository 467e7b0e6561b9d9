-- `Views`: what it is to gather a view. `Serving`: what a desk's call may trust, and what it owes.
pub mod Views
pub mod Serving
