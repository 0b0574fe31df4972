pub mod MostExact
pub mod CountExact
pub mod TestExact
