pub mod Reply
pub mod ByteReply
