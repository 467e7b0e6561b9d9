-- Of the promise:
-- `Judging`: what an accepted begin and an accepted call have.
-- `SheetRuns`: every sheet of a run is sound. `DeskRuns`: a desk on the sheet is as its history says.
-- `Told`: what a desk is told. `ClassKeeps`: our store meets demand 3. `OnlyStore`: no other store does.
-- `AsIfAlone`: a desk is told what it would be told alone. `WrongStores`, `PlacesAlone`: the wrong stores that demand 3 shuts out.
-- `TwelveNever`: refusal 12 is never given. `RefusedExactlyWhen`: when each refusal is given.
-- `ValueTable`: what each answer returns. `HandedBack`: what a call leaves as it came.
-- Of the code:
-- `Gathering`, `ViewRows`: how a view is gathered, and its rows. `Trusting`: what is known once table, sheet and desk are right.
-- `Serving`, `Replying`: from the parts of a call to what is told and handed back. `Determined`: the contracts leave no choice.
-- Of both:
-- `PlayedTells`: runs that the contracts admit tell what the promise is about. `Runs`: runs through any door.
pub mod Judging
pub mod SheetRuns
pub mod DeskRuns
pub mod Told
pub mod ClassKeeps
pub mod OnlyStore
pub mod AsIfAlone
pub mod WrongStores
pub mod PlacesAlone
pub mod TwelveNever
pub mod RefusedExactlyWhen
pub mod ValueTable
pub mod HandedBack
pub mod Gathering
pub mod ViewRows
pub mod Trusting
pub mod Serving
pub mod Replying
pub mod Determined
pub mod Runs
pub mod PlayedTells
