-- What is kept of blocks until they are hashed, several at a time. States of the code, but for `verdict_with`, which
-- public contracts cite.
use Rattle.std.specs.Prelude.{ℕ, ◌≤◌, List, map, slice_range, if◌then◌else◌}
use Rattle.std.specs.List.{AllByRecursion}
use Rattle.std.specs.Str.{bytes_eq}
use Rattle.sha1.specs.Sha1.{sha1}
use Rattle.warc_value.specs.declared.hash.Verdict.{Verdict}
use Rattle.warc_value.specs.declared.hash.Verdict.TheVariants.{Good, Bad}
use Rattle.warc_checking.specs.declared.batch.BlockCheck.{BlockCheck}
use Rattle.warc_checking.specs.declared.batch.BlockCheck.TheVariants.{Known, Compare}
use Rattle.warc_checking.specs.declared.batch.Waiting.{Waiting}

-- the verdict on a block by its digest, if it isn't known yet
abbrev pub verdict_with : BlockCheck → List ℕ → Verdict
verdict_with (Known verdict) digest = verdict
verdict_with (Compare wanted) digest = if bytes_eq wanted digest then Good else Bad

-- the digest of what is kept of a waiting block
abbrev pub digest_in : List ℕ → Waiting → List ℕ
digest_in blocks w = sha1 (slice_range blocks w.start w.end)

-- the verdict on a waiting block, by the bytes of the blocks that are kept
abbrev pub verdict_in : List ℕ → Waiting → Verdict
verdict_in blocks w = verdict_with w.check (digest_in blocks w)

abbrev pub verdicts_in : List ℕ → List Waiting → List Verdict
verdicts_in blocks ws = map (verdict_in blocks) ws

-- a waiting block is among the first bytes, as many as this
pub record IsKeptIn (count : ℕ) (w : Waiting) : Type 0 where
  pub order : w.start ≤ w.end
  pub end : w.end ≤ count

abbrev pub AreKeptIn : ℕ → List Waiting → Type 0
AreKeptIn count ws = AllByRecursion (IsKeptIn count) ws
