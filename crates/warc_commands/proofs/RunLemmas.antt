-- A list, and the source that the system gives at its path.
use Rattle.std.proofs.Common.{◌≡◌, ℕ, ◌+◌, ◌<◌, ◌≤◌, Bool, true, false, List, length, length-take, take, take_all, Ok, ap, arith, ◌∙◌}
use Rattle.warc_frame.specs.Seen.{SeenSource}
use Rattle.warc_commands.specs.Running.{GivesList, Offer, opened, streamed}

-- what was read of a list is all of it, if it isn't too long
pub all_of : (n : ℕ) (list all : List ℕ) → list ≡ take (n + 1) all → length list ≤ n → list ≡ all
all_of n list all same few =
    let short : length all ≤ n = omega (arith, few, ap (λ l. length l) same, length-take (n + 1) all) in
    same ∙ take_all (n + 1) all (omega (arith, short))

pub long_of : (n : ℕ) (list all : List ℕ) → list ≡ take (n + 1) all → n < length list → n < length all
long_of n list all same long = omega (arith, long, ap (λ l. length l) same, length-take (n + 1) all)

pub given_input : (gives : Offer → Type 0) (path : List ℕ) (source : SeenSource) (b : Bool) → b ≡ true → gives (streamed source) → GivesList b gives path source
given_input gives path source true same is = is
given_input gives path source false same is = absurd (cc same)

pub given_file : (gives : Offer → Type 0) (path : List ℕ) (source : SeenSource) (b : Bool) → b ≡ false → gives (opened path (Ok source)) → GivesList b gives path source
given_file gives path source true same is = absurd (cc same)
given_file gives path source false same is = is
