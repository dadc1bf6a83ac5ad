pub mod WriteLaws
pub mod OverlayLaws
pub mod GenesisLaws
