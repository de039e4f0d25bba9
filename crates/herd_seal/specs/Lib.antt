pub mod Seal
pub mod Certificate
pub mod CertificateText
pub mod CheckCause
pub mod Answer
pub mod CheckFaults
pub mod Reading
