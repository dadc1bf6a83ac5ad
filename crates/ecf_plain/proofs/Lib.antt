pub mod LeadLaws
pub mod PlainLaws
pub mod StatementLaws
pub mod ValueLaws
