-- What opening gives, by what is made of its answer.
use Rattle.std.proofs.Common.{ℕ, List, Ok, Err}
use Rattle.warc_frame.specs.declared.fault.Fault.{Fault}
use Rattle.warc_frame.specs.Seen.{SeenSource}
use Rattle.warc_reading.specs.Opening.{OpensFrom}

-- what opening gives, by what is made of its answer
pub opens_with : {X Y : Type 0} {Is : List ℕ → X → Type 0} {Gives : List ℕ → Y → Type 0} {start : ℕ} {old new : SeenSource} (x : X) (y : Y) → ((bytes : List ℕ) → Is bytes x → Gives bytes y) → OpensFrom start Is old new (Ok x)
    → OpensFrom start Gives old new (Ok y)
opens_with x y gives opens = record {
  accepted = λ bytes held. gives bytes (opens.accepted bytes held);
  refused = λ bytes held. tt;
  some = (opens.some.0, gives opens.some.0 opens.some.1);
  reads = record {
    kept = opens.reads.kept;
    cause = opens.reads.cause;
    asked = tt;
    near = opens.reads.near;
    watched = opens.reads.watched;
    bound = opens.reads.bound;
    tried = opens.reads.tried;
  };
  cost = opens.cost;
  order = opens.order;
}

pub refuses_with : {X Y : Type 0} {Is : List ℕ → X → Type 0} {Gives : List ℕ → Y → Type 0} {start : ℕ} {old new : SeenSource} (f : Fault) → OpensFrom start Is old new (Err f) → OpensFrom start Gives old new (Err f)
refuses_with f opens = record {
  accepted = λ bytes held. tt;
  some = tt;
  refused = opens.refused;
  reads = record {
    kept = opens.reads.kept;
    cause = opens.reads.cause;
    asked = opens.reads.asked;
    near = opens.reads.near;
    watched = opens.reads.watched;
    bound = opens.reads.bound;
    tried = opens.reads.tried;
  };
  cost = opens.cost;
  order = opens.order;
}
