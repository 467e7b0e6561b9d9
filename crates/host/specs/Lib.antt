-- `Numbers`, `Spoken`: the numbers by which hosts in other languages ask and are answered.
pub mod Numbers
pub mod Spoken
