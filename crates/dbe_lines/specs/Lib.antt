pub mod Requests
pub mod KeysRead
pub mod QueriesRead
pub mod Queries
pub mod Texts
