pub mod Rule
pub mod Words
pub mod PatternText
pub mod Grammar
pub mod RuleText
pub mod Match
pub mod Reader
pub mod Laws
