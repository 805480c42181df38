pub mod Ends
pub mod Attempts
pub mod AttemptLaws
pub mod OverTx
pub mod OverTxLaws
pub mod OverTxCalls
