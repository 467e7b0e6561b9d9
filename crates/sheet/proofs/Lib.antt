-- `UptoLaws`: laws of what is said of the numbers below n. `PlaceRows`: the words that hold the places' sets.
-- `Surveying`: what a pass over the places has learnt so far. `Markings`: hide marks by words.
-- `SoundParts`: what soundness says, part by part. `Checking`: soundness, test by test, as the code goes.
-- `ClosingUp`: rows taken out of a list. `ClosingPass`: the pass that closes places up. `Fills`: a part of a list filled with zeros.
-- `EmptyPlaces`: the places behind become empty. `OwnAfter`: what a desk holds after a change. `HidesAfter`: what it hides.
-- `SoundAfter`: soundness is kept.
pub mod UptoLaws
pub mod PlaceRows
pub mod Surveying
pub mod Markings
pub mod SoundParts
pub mod Checking
pub mod ClosingUp
pub mod ClosingPass
pub mod Fills
pub mod EmptyPlaces
pub mod OwnAfter
pub mod HidesAfter
pub mod SoundAfter
