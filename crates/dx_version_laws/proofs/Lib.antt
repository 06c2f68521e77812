mod Examples
mod SchemaExamples
pub mod Plain
