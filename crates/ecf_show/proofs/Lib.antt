pub mod TextLaws
pub mod ExpressionLaws
pub mod StatementLaws
pub mod FileLaws
pub mod CaseLaws
