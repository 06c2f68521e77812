pub mod Digits
pub mod Passing
pub mod Utf8
pub mod StopKinds
pub mod Decimal
pub mod Standing
pub mod Doubled
pub mod QuotedTexts
pub mod Ranks
pub mod Numerals
pub mod TextEnds
pub mod Meanings
pub mod Lexings
mod Examples
