-- What it says that a row of the table lets a text pass, or refuses it.
use Rattle.std.proofs.Common.{◌≡◌, ℕ, Bool, true, false, not, List, Option, Some, None, Result, Ok, Err, refl, ap, inl, inr, ◌⊎◌}
use Rattle.warc_field.specs.Area.{Pair}
use Rattle.warc_frame.specs.declared.fault.FaultKind.{FaultKind}
use Rattle.warc_frame.specs.declared.fault.Fault.{Fault}
use Rattle.warc_frame.specs.Reading.{◌>>=◌, refuses, needs, accepts, at_front, fields_or_line}

pub bind_ok : {A B : Type 0} (r : Result A Fault) (f : A → Result B Fault) (y : B) → (r >>= f) ≡ Ok y → (x : A) × (r ≡ Ok x) × (f x ≡ Ok y)
bind_ok (Ok x) f y h = (x, refl, h)
bind_ok (Err e) f y h = absurd cc

pub bind_err : {A B : Type 0} (r : Result A Fault) (g : A → Result B Fault) (f : Fault) → (r >>= g) ≡ Err f → (r ≡ Err f) ⊎ ((x : A) × (r ≡ Ok x) × (g x ≡ Err f))
bind_err (Ok x) g f h = inr (x, refl, h)
bind_err (Err e) g f h = inl (let same : e ≡ f = cc in ap Err same)

pub ok_same : {A : Type 0} (x y : A) → ◌≡◌ {A = Result A Fault} (Ok x) (Ok y) → x ≡ y
ok_same x y e = cc

pub err_same : {A : Type 0} (e f : Fault) → ◌≡◌ {A = Result A Fault} (Err e) (Err f) → e ≡ f
err_same e f h = cc

pub needs-ok : {A : Type 0} (o : Option A) (f : Fault) (x : A) → needs o f ≡ Ok x → o ≡ Some x
needs-ok None f x h = absurd cc
needs-ok (Some y) f x h = let same : y ≡ x = cc in ap Some same

pub refuses-ok : (b : Bool) (f : Fault) (x : Unit {0}) → refuses b f ≡ Ok x → b ≡ false
refuses-ok true f x h = absurd cc
refuses-ok false f x h = refl

pub refuses-err : (b : Bool) (e f : Fault) → refuses b e ≡ Err f → (b ≡ true) × (e ≡ f)
refuses-err true e f h = (refl, cc)
refuses-err false e f h = absurd cc

pub accepts-ok : (o : Option FaultKind) (x : Unit {0}) → accepts o ≡ Ok x → o ≡ None
accepts-ok None x h = refl
accepts-ok (Some kind) x h = absurd cc

pub at_front-ok : (r : Result ℕ FaultKind) (n : ℕ) → at_front r ≡ Ok n → r ≡ Ok n
at_front-ok (Ok x) n h = let e : x ≡ n = cc in ap Ok e
at_front-ok (Err e) n h = absurd cc

pub fields_or_line-ok : (r : Result (List Pair) ℕ) (fields : List Pair) → fields_or_line r ≡ Ok fields → r ≡ Ok fields
fields_or_line-ok (Ok x) fields h = let e : x ≡ fields = cc in ap Ok e
fields_or_line-ok (Err e) fields h = absurd cc

pub option_cases : {A : Type 0} (o : Option A) → (o ≡ None) ⊎ ((x : A) × (o ≡ Some x))
option_cases None = inl refl
option_cases (Some x) = inr (x, refl)

pub result_cases : {A : Type 0} (r : Result A Fault) → ((x : A) × (r ≡ Ok x)) ⊎ ((f : Fault) × (r ≡ Err f))
result_cases (Ok x) = inl (x, refl)
result_cases (Err f) = inr (f, refl)

pub not_false : (b : Bool) → not b ≡ false → b ≡ true
not_false true h = refl
not_false false h = cc

pub not_truth : (b : Bool) → not b ≡ true → b ≡ false
not_truth true h = cc
not_truth false h = refl
