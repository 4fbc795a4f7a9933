-- What no public clause cites: the lemmas, all proved, that the impls of `Arrivals` give as the proofs of its laws.
-- They stand here since an impl may cite its crate's `specs` alone.
pub mod Windows
pub mod Releases
pub mod Laws
