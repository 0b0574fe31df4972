pub mod Bytes
pub mod BytesLaws
pub mod Sign
pub mod SignLaws
