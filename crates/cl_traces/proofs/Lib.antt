pub mod PrintedNumbers
pub mod TasksByName
pub mod BrokenPlaces
pub mod CoreEntries
pub mod OneText
pub mod MorePieces
pub mod SomeSaid
