-- `Steps`: what the contracts of the two steps speak of.
pub mod Steps
