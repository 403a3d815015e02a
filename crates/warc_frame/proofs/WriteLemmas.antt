-- The parts of a canonical text, one after the other.
use Rattle.std.proofs.Common.{◌≡◌, ℕ, ◌+◌, List, [], ◌∷◌, ◌++◌, length, length-append, append_assoc, arith}
use Rattle.warc_field.specs.Lines.{crlf}
use Rattle.warc_field.specs.Area.{Pair, canonical_fields}
use Rattle.warc_frame.specs.declared.version.Version.{Version}
use Rattle.warc_frame.specs.Record.{Record, head_text}
use Rattle.warc_frame.specs.VersionLine.{version_line}
use Rattle.warc_frame.specs.Spelling.{canonical}
use Rattle.warc_frame.proofs.CanonicalLemmas.{head_size}

pub canonical_length : (r : Record) (n : ℕ) → n ≡ length (canonical_fields r.fields) → n + length r.block + 16 ≡ length (canonical r)
unfolding canonical
canonical_length r n e =
    let head = head_text r.version (canonical_fields r.fields) in
    omega (arith, e, head_size r.version (canonical_fields r.fields), length-append head r.block, length-append (head ++ r.block) crlf, length-append (head ++ r.block ++ crlf) crlf)

regroup : (old line area block : List ℕ) → ((((old ++ line) ++ area) ++ crlf) ++ block) ++ (13 ∷ 10 ∷ 13 ∷ 10 ∷ []) ≡ old ++ (line ++ area ++ crlf ++ block ++ crlf ++ crlf)
regroup old line area block = simp append_assoc

pub written : (r : Record) (version : Version) (fields : List Pair) (block line old p0 p1 p2 p3 p4 p5 : List ℕ) → version ≡ r.version → fields ≡ r.fields → block ≡ r.block → line ≡ version_line version
    → p0 ≡ old → p1 ≡ p0 ++ line → p2 ≡ p1 ++ canonical_fields fields → p3 ≡ p2 ++ crlf → p4 ≡ p3 ++ block → p5 ≡ p4 ++ (13 ∷ 10 ∷ 13 ∷ 10 ∷ []) → p5 ≡ old ++ canonical r
unfolding canonical
written r version fields block line old p0 p1 p2 p3 p4 p5 v f b l e0 e1 e2 e3 e4 e5 =
    rw (e5, e4, e3, e2, e1, e0, l, v, f, b) (regroup old (version_line r.version) (canonical_fields r.fields) r.block)
