-- `Surveys`: what is learnt of a sheet that may be damaged. `Removals`: what a pass that takes rows out leaves.
pub mod Surveys
pub mod Removals
