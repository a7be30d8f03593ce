pub mod Unrolled
pub mod FieldLaws
pub mod FirstLaws
pub mod PartLaws
pub mod PassLaws
pub mod ListLaws
pub mod Sound
pub mod DecodeFacts
