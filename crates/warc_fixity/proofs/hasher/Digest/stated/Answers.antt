use Rattle.std.proofs.Common.{◌≡◌, ℕ, ◌+◌, ◌==◌, List, Some, sym, ◌∙◌}
use Rattle.std.specs.Prelude.{position}
use Rattle.std.proofs.lemmas.List.{take_rest}
use Rattle.warc_field.proofs.TokenLemmas.{first_is_position}
use Rattle.warc_fixity.proofs.StatedLemmas.{stated_at, nothing_stated, wanted_is_stated}
use Rattle.warc_fixity.proofs.hasher.Digest.stated.Goals as goal

pub returns-in-Sha1 : goal.returns-in-Sha1
returns-in-Sha1 c = sym (wanted_is_stated c.args.value.now c.in-Sha1.digest (sym c.of.ensures ∙ c.in-Sha1.is))

pub returns-in-Some : goal.returns-in-Some
returns-in-Some c =
    let value : List ℕ = c.args.value.now in
    let at : Some c.in-Some.colon ≡ position (λ b. b == 58) value = sym c.in-Some.is ∙ first_is_position (λ b. b == 58) value c.memchr.result c.memchr.ensures in
    c.digest_by.ensures ∙ sym (stated_at value _ c.in-Some.colon at (take_rest value (c.in-Some.colon + 1)))

pub returns-in-None : goal.returns-in-None
returns-in-None c =
    let value : List ℕ = c.args.value.now in
    sym (nothing_stated value (sym c.in-None.is ∙ first_is_position (λ b. b == 58) value c.memchr.result c.memchr.ensures))
