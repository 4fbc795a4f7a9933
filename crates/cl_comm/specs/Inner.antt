-- What no clause cites: the lemmas, all proved, that the impls of `Access` give as the proofs of its laws. They stand
-- here since an impl may cite its crate's `specs` alone.
pub mod LeastTimes
pub mod AccessTimes
pub mod KindLaws
