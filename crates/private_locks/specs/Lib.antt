pub mod PrivateLocks
