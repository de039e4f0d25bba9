pub mod SealedCertificate
