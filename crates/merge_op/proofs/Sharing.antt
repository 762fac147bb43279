-- Tables that are shared, one after the other.
use Rattle.std.proofs.Common.{◌≡◌, ap, sym, ◌∙◌, subst, ℕ, zero, suc, ◌+◌, ◌<◌, ◌≤◌, arith, List, [], ◌∷◌, drop, length, get_or}
use Rattle.std.{specs.Arc.arc_value, specs.declared.alloc.Global.Global, specs.declared.sync.Arc.Arc, specs.List.AllByRecursion, specs.Prelude.{Err, Ok, OnErr, OnOk, Result}, proofs.lemmas.List.drop_more, proofs.Math.ListN.drop_of_length-le}
use Rattle.tick_table.specs.Ticking.{Ticking}
use Rattle.table_operator.specs.Inputs.{tables}

-- what holds of all tables holds of the one at a place
pub of_table : (P : Ticking → Type 0) (shared : List (Arc Ticking Global)) (i : ℕ) (item : Arc Ticking Global) → AllByRecursion P (tables shared) → i < length shared → P (arc_value {X = Ticking} (get_or shared i item))
of_table P [] i item h k = absurd (omega (arith, k))
of_table P (first ∷ shared) zero item h k = h.0
of_table P (first ∷ shared) (suc i) item h k = of_table P shared i item h.1 (omega (arith, k))

pub table_at : (P : Ticking → Type 0) (shared : List (Arc Ticking Global)) (i : ℕ) (item : Arc Ticking Global) (table : Ticking) → AllByRecursion P (tables shared) → i < length shared → item ≡ get_or shared i item → table ≡ arc_value {X = Ticking} item → P table
table_at P shared i item table h k is now = subst P (sym (now ∙ ap (λ (shared : Arc Ticking Global). arc_value {X = Ticking} shared) is)) (of_table P shared i item h k)

-- the tables from a place on are the one there and those behind it
pub tables_from : (shared : List (Arc Ticking Global)) (i : ℕ) (item : Arc Ticking Global) (table : Ticking) → i < length shared → item ≡ get_or shared i item → table ≡ arc_value {X = Ticking} item → tables (drop i shared) ≡ table ∷ tables (drop (i + 1) shared)
tables_from shared i item table k is now =
    ap tables (drop_more shared i item k) ∙ ap (λ (first : Arc Ticking Global). arc_value {X = Ticking} first ∷ tables (drop (i + 1) shared)) (sym is)
    ∙ ap (λ (table : Ticking). table ∷ tables (drop (i + 1) shared)) (sym now)

pub no_tables : (shared : List (Arc Ticking Global)) (i : ℕ) → length shared ≤ i → tables (drop i shared) ≡ []
no_tables shared i past = ap tables (drop_of_length-le shared past)

-- a row is read whole, or after a refusal not at all
pub read_or_not : {T E : Type 0} (answer : Result T E) (each so_far more : ℕ) → OnOk answer (more ≡ so_far + each) → OnErr answer (more ≡ so_far) → more ≤ so_far + each
read_or_not (Ok x) each so_far more read unread = let all : more ≡ so_far + each = read in omega (arith, all)
read_or_not (Err e) each so_far more read unread = let none : more ≡ so_far = unread in omega (arith, none)
