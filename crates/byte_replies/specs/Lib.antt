pub mod ByteReply
