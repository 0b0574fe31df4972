pub mod CountExact
pub mod MostExact
pub mod TestExact
pub mod RoomExact
