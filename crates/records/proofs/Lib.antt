mod Rest
mod DecodePairs
mod DecodeSoFar
mod RecordBytes
mod CountableBytes
mod LineBy
mod Inverse
mod Entering
mod EnteringTwice
mod Enter
mod AllGiven
mod Spelling
mod RecordLaw
mod LineLaw
mod Lines
mod Course
mod Joined
mod GivenBytes
mod GoodNames
pub mod NamesGood
pub mod Numbered
