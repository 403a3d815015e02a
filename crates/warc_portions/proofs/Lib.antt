mod CutLemmas
mod MadeLemmas
mod OutputLemmas
mod PortionLemmas
