pub mod OrderLaws
pub mod SearchLaws
pub mod PutLaws
pub mod PageLaws
pub mod RowLaws
pub mod PlaceLaws
pub mod LeafLaws
