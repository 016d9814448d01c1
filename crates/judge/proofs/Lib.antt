-- Laws that the proofs of several functions use.
mod Steps
mod EntryLaws
mod SeenLaws
mod Joined
mod Ends
mod ChildLaws
mod BodyLaws
mod LayersLaws
mod ItemLaws
pub mod PlaceLaws
mod AnswerLaws
mod FileLaws
pub mod Opened
pub mod ListedLaws
pub mod Claims
