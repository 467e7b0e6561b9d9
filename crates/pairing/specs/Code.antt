-- `Asking`: what the contracts of the search speak of. `Seats`: what those of one row more speak of.
pub mod Asking
pub mod Seats
