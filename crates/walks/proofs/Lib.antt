-- `Public`: what it is to be a public call.
-- For proofs by hand, of which there are none now: `Walk`: what they cite of the logic. `LentLocals`: a value in a local, lent and taken back.
pub mod Public
pub mod Walk
pub mod LentLocals
