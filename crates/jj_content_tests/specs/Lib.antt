pub mod KindContent
pub mod KindLaw
pub mod MaybeContent
pub mod MaybeLaw
pub mod Notes
pub mod Reviews
pub mod ReviewLaw
