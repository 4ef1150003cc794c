pub mod Lexer
pub mod Tokens
pub mod Ttl
pub mod dnw_codes
