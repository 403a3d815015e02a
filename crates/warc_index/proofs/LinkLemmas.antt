-- What links are, as roles, middles and entries.
use Rattle.std.proofs.Common.{◌≡◌, ℕ, zero, suc, ◌+◌, ◌<◌, List, [], ◌∷◌, ◌++◌, length, take, drop, get_or, refl, sym, ap, ◌∙◌, arith, length-append}
use Rattle.std.specs.Prelude.{Option, Some, None, unwrap_or, IfSome, IfNone}
use Rattle.std.specs.List.{sum_by}
use Rattle.std.proofs.lemmas.List.{take-append-drop}
use Rattle.std.proofs.lemmas.List.Sums.{sum_by-cons}
use Rattle.std.proofs.Math.Seq.{take-append_seam, drop-append_seam}
use Rattle.warc_order.specs.declared.mark.Mark.{Mark}
use Rattle.warc_order.specs.Columns.{Sparse, values, HoldsAt, IsBlankAt}
use Rattle.warc_order.specs.Entries.{Entry, entry_of, no_entry}
use Rattle.warc_index.specs.declared.link.Role.{Role}
use Rattle.warc_index.specs.Links.{Link, link, link_bytes, at_start, reported, links_in}

pub links_push : (roles : List Role) (middles : List ℕ) (es : List Entry) (role : Role) (first second : List ℕ)
    (mark : Mark) (position : ℕ) → length middles ≡ length roles → length es ≡ length roles →
    links_in (roles ++ role ∷ []) (middles ++ length first ∷ []) (es ++ entry_of (first ++ second) mark position ∷ [])
    ≡ links_in roles middles es ++ link role first second mark ∷ []
links_push [] [] [] role first second mark position m t = rw (
  take-append_seam first second,
  drop-append_seam first second,
) refl
links_push [] [] (e ∷ es) role first second mark position m t = absurd (omega arith)
links_push [] (n ∷ middles) es role first second mark position m t = absurd (omega arith)
links_push (r ∷ roles) [] es role first second mark position m t = absurd (omega arith)
links_push (r ∷ roles) (n ∷ middles) [] role first second mark position m t = absurd (omega arith)
links_push (r ∷ roles) (n ∷ middles) (e ∷ es) role first second mark position m t =
    ap (λ ls. reported r n e ∷ ls) (links_push roles middles es role first second mark position (omega arith) (omega
    arith))

-- what is read of a column of middles
pub middle_at : (middles : Sparse ℕ) (i : ℕ) (read : Option ℕ) → IfSome read (HoldsAt middles i) →
    IfNone read (IsBlankAt middles i) → unwrap_or read 0 ≡ get_or (values at_start middles) i 0
middle_at middles i None some none = sym (none at_start)
middle_at middles i (Some middle) some none = sym (some at_start)

pub links_take : (n : ℕ) (roles : List Role) (middles : List ℕ) (es : List Entry) →
    links_in (take n roles) (take n middles) (take n es) ≡ take n (links_in roles middles es)
links_take zero roles middles es = refl
links_take (suc n) [] middles es = refl
links_take (suc n) (r ∷ roles) [] es = refl
links_take (suc n) (r ∷ roles) (m ∷ middles) [] = refl
links_take (suc n) (r ∷ roles) (m ∷ middles) (e ∷ es) = ap (λ ls. reported r m e ∷ ls) (links_take n roles middles es)

pub link_in : (i : ℕ) (roles : List Role) (middles : List ℕ) (es : List Entry) (d : Role) (l : Link) →
    length middles ≡ length roles → length es ≡ length roles → i < length roles →
    get_or (links_in roles middles es) i l ≡ reported (get_or roles i d) (get_or middles i 0) (get_or es i no_entry)
link_in i [] middles es d l m t lt = absurd (omega arith)
link_in i (r ∷ roles) [] es d l m t lt = absurd (omega arith)
link_in i (r ∷ roles) (n ∷ middles) [] d l m t lt = absurd (omega arith)
link_in zero (r ∷ roles) (n ∷ middles) (e ∷ es) d l m t lt = refl
link_in (suc i) (r ∷ roles) (n ∷ middles) (e ∷ es) d l m t lt =
    link_in i roles middles es d l (omega arith) (omega arith) (omega arith)

pub length_links : (roles : List Role) (middles : List ℕ) (es : List Entry) → length middles ≡ length roles →
    length es ≡ length roles → length (links_in roles middles es) ≡ length roles
length_links [] middles es m t = refl
length_links (r ∷ roles) [] es m t = absurd (omega arith)
length_links (r ∷ roles) (n ∷ middles) [] m t = absurd (omega arith)
length_links (r ∷ roles) (n ∷ middles) (e ∷ es) m t =
    let l : length (links_in roles middles es) ≡ length roles = length_links roles middles es (omega arith) (omega
    arith) in omega arith

reported_bytes : (n : ℕ) (text : List ℕ) → length (take n text) + length (drop n text) ≡ length text
reported_bytes n text = sym (length-append (take n text) (drop n text)) ∙ ap length (take-append-drop n text)

pub bytes_links : (roles : List Role) (middles : List ℕ) (es : List Entry) → length middles ≡ length roles →
    length es ≡ length roles → sum_by (λ e. length e.text) es ≡ sum_by link_bytes (links_in roles middles es)
bytes_links [] middles [] m t = refl
bytes_links [] middles (e ∷ es) m t = absurd (omega arith)
bytes_links (r ∷ roles) [] es m t = absurd (omega arith)
bytes_links (r ∷ roles) (n ∷ middles) [] m t = absurd (omega arith)
bytes_links (r ∷ roles) (n ∷ middles) (e ∷ es) m t =
    let more : sum_by (λ (e : Entry). length e.text) es ≡ sum_by link_bytes (links_in roles middles es) =
    bytes_links roles middles es (omega arith) (omega arith) in
    sum_by-cons (λ (f : Entry). length f.text) e es ∙ (omega (arith, more, reported_bytes n e.text)
    ∙ sym (sum_by-cons link_bytes (reported r n e) (links_in roles middles es)))
