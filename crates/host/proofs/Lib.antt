-- `Determined`: the contracts leave no choice. `PlayedTells`: a host's runs tell what the promise is about.
-- `KindTable`: the numbers of calls and answers.
pub mod Determined
pub mod PlayedTells
pub mod KindTable
