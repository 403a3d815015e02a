pub mod ClapLaws
mod ExplainLemmas
mod WorkedValues
