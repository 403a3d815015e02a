-- How a command ends by its word.
use Rattle.std.proofs.Common.{◌≡◌, inl, inr, Bool, List, ℕ, Result, Ok, Err, refl, sym, subst}
use Rattle.std.specs.Prelude.{IfOk}
use Rattle.warc_frame.specs.Seen.{Seen, SeenSource}
use Rattle.warc_arguments.specs.declared.status.Status.{Status}
use Rattle.warc_arguments.specs.declared.status.Status.TheVariants.{Failed}
use Rattle.warc_commands.specs.Devices.{Devices, Outputs, devices}
use Rattle.warc_commands.specs.Program.{Reports, reported_line}
use Rattle.warc_commands.specs.Runs.{Runs, run_seen}
use Rattle.warc_frame.specs.declared.fault.Fault.{Fault}
use Rattle.warc_commands.specs.Words.{ByUri, ByWord, IsBadWord, ReadsWord, word_fault_text}
use Rattle.warc_commands.specs.declared.words.WordFault.{WordFault}
use Rattle.warc_commands.specs.declared.words.WordFault.TheVariants.{Memory}

-- ---- how it ends

-- the word says what it should
pub by_word : {X : Type 0} (How : X → Devices → Devices → Status → Type 0) (read : Result X WordFault) (x : X) (old new : Devices) (status : Status) → Ok x ≡ read → How x old new status → ByWord How read old new status
by_word {X} How read x old new status same is = let P : Result X WordFault → Type 0 = λ r. ByWord How r old new status in subst P same is

-- by a flag of the command
pub by_flag : {X : Type 0} (How : Bool → X → Devices → Devices → Status → Type 0) (flag set : Bool) (read : Result X WordFault) (x : X) (old new : Devices) (status : Status) → flag ≡ set → Ok x ≡ read
    → How set x old new status → ByWord (How flag) read old new status
by_flag How flag set read x old new status is same ends =
    let P : Bool → Type 0 = λ b. How b x old new status in
    by_word (How flag) read x old new status same (subst P (sym is) ends)

-- nothing was read, and its fault is reported
unread_by : (fault : WordFault) (source : SeenSource) (out err err' : Seen) (status : Status) → Reports (reported_line (word_fault_text fault)) err err' → status ≡ Failed
    → IsBadWord (word_fault_text fault) (devices source out err) (devices source out err') status
unread_by fault source out err err' status reports is = record { unread = refl; untouched = refl; reported = reports; status_is = is }

pub bad_word : {X : Type 0} (How : X → Devices → Devices → Status → Type 0) (read : Result X WordFault) (fault : WordFault) (source : SeenSource) (out err err' : Seen) (status : Status) → Err fault ≡ read
    → Reports (reported_line (word_fault_text fault)) err err' → status ≡ Failed → ByWord How read (devices source out err) (devices source out err') status
bad_word {X} How read fault source out err err' status same reports is =
    let P : Result X WordFault → Type 0 = λ r. ByWord How r (devices source out err) (devices source out err') status in
    subst P same (unread_by fault source out err err' status reports is)

-- ---- a URI

read_or_starved : {X : Type 0} (fault : WordFault) (x : X) → ◌≡◌ {A = Result X WordFault} (Ok x) (Err fault) → ⊥
read_or_starved fault x e = cc

same_fault : {X : Type 0} (one other : WordFault) → ◌≡◌ {A = Result X WordFault} (Err one) (Err other) → one ≡ other
same_fault one other e = cc

pub by_uri : {X : Type 0} (How : X → Devices → Devices → Status → Type 0) (in_hex : Bool) (read : Result X WordFault) (x y : X) (old new : Devices) (status : Status) → ReadsWord in_hex read (Ok x)
    → y ≡ x → How y old new status → ByUri How in_hex read old new status
by_uri {X} How in_hex read x y old new status (inl is) same ends = let P : X → Type 0 = λ z. How z old new status in inl (by_word How read x old new status is (subst P same ends))
by_uri How in_hex read x y old new status (inr starved) same ends = absurd (read_or_starved Memory x starved.1)

pub bad_uri : {X : Type 0} (How : X → Devices → Devices → Status → Type 0) (in_hex : Bool) (read : Result X WordFault) (fault : WordFault) (source : SeenSource) (out err err' : Seen) (status : Status)
    → ReadsWord in_hex read (Err fault) → Reports (reported_line (word_fault_text fault)) err err' → status ≡ Failed → ByUri How in_hex read (devices source out err) (devices source out err') status
bad_uri How in_hex read fault source out err err' status (inl same) reports is = inl (bad_word How read fault source out err err' status same reports is)
bad_uri {X} How in_hex read fault source out err err' status (inr starved) reports is =
    let P : WordFault → Type 0 = λ f. IsBadWord (word_fault_text f) (devices source out err) (devices source out err') status in
    inr (starved.0, subst P (same_fault {X = X} fault Memory starved.1) (unread_by fault source out err err' status reports is))

-- ---- what holds of each end

pub by_read : {X : Type 0} (How : X → Devices → Devices → Status → Type 0) (read : Result X WordFault) (old : Devices) (Q : Devices → Status → Type 0) → ((x : X) (new : Devices) (status : Status) → How x old new status → Q new status)
    → ((why : List ℕ) (new : Devices) (status : Status) → IsBadWord why old new status → Q new status) → (new : Devices) (status : Status) → ByWord How read old new status → Q new status
by_read How (Ok x) old Q each bad new status is = each x new status is
by_read How (Err fault) old Q each bad new status is = bad (word_fault_text fault) new status is

pub run_by_word : {S : Type 0} {X : Type 0} (seen : S → SeenSource) (How : X → Devices → Devices → Status → Type 0) (read : Result X WordFault) (Reads : SeenSource → SeenSource → Type 0) (old : Devices) (new : Outputs)
    (result : Result (Status × S) (Fault × S)) (Q : Devices → Status → Type 0) → ((x : X) (last : Devices) (status : Status) → How x old last status → Q last status)
    → ((why : List ℕ) (last : Devices) (status : Status) → IsBadWord why old last status → Q last status) → Runs (ByWord How read) Reads old new (run_seen seen result)
    → IfOk result (λ it. Q (devices (seen it.1) new.out new.err) it.0)
run_by_word seen How read Reads old new (Ok ended) Q each bad is = by_read How read old Q each bad _ ended.0 is.ends
run_by_word seen How read Reads old new (Err refused) Q each bad is = tt

pub run_by_uri : {S : Type 0} {X : Type 0} (seen : S → SeenSource) (How : X → Devices → Devices → Status → Type 0) (in_hex : Bool) (read : Result X WordFault) (Reads : SeenSource → SeenSource → Type 0) (old : Devices)
    (new : Outputs) (result : Result (Status × S) (Fault × S)) (Q : Devices → Status → Type 0) → ((x : X) (last : Devices) (status : Status) → How x old last status → Q last status)
    → ((why : List ℕ) (last : Devices) (status : Status) → IsBadWord why old last status → Q last status) → Runs (ByUri How in_hex read) Reads old new (run_seen seen result)
    → IfOk result (λ it. Q (devices (seen it.1) new.out new.err) it.0)
run_by_uri {S} {X} seen How in_hex read Reads old new (Ok ended) Q each bad is = by_end (devices (seen ended.1) new.out new.err) ended.0 is.ends
  where
    by_end : (last : Devices) (status : Status) → ByUri How in_hex read old last status → Q last status
    by_end last status (inl word) = by_read How read old Q each bad last status word
    by_end last status (inr starved) = bad _ last status starved.1
run_by_uri seen How in_hex read Reads old new (Err refused) Q each bad is = tt
