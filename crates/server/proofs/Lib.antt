-- `Determined`: the contract leaves no choice. `PlayedTells`: a class server's runs tell what the promise is about.
pub mod Determined
pub mod PlayedTells
