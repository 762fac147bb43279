-- Edits that lead from the cells from before to those of now.
use Rattle.std.proofs.Common.{◌≡◌, refl, ap, sym, ◌∙◌, subst, ◌<◌, arith, List, [], ◌∷◌, ◌++◌, drop, get_or, length}
use Rattle.column_source.{specs.declared.edit.Edit.Edit, specs.Edits.{AreAllowed, IsAllowed, LeadTo, edited, edited_by}, specs.Entries.Entry}

-- one edit more
allowed-append : (edits : List Edit) (edit : Edit) (entries : List Entry) → AreAllowed edits entries → IsAllowed edit (edited_by edits entries) → AreAllowed (edits ++ edit ∷ []) entries
allowed-append [] edit entries all own = (own, tt)
allowed-append (first ∷ edits) edit entries all own = (all.0, allowed-append edits edit (edited first entries) all.1 own)

edited_by-append : (edits : List Edit) (edit : Edit) (entries : List Entry) → edited_by (edits ++ edit ∷ []) entries ≡ edited edit (edited_by edits entries)
edited_by-append [] edit entries = refl
edited_by-append (first ∷ edits) edit entries = edited_by-append edits edit (edited first entries)

pub lead_on : (now : List Entry) (edits : List Edit) (before : List Entry) (edit : Edit) → LeadTo now edits before → IsAllowed edit now → LeadTo (edited edit now) (edits ++ edit ∷ []) before
lead_on now edits before edit h own = record {
  allowed = allowed-append edits edit before h.allowed (subst (IsAllowed edit) (sym h.lead) own);
  lead = edited_by-append edits edit before ∙ ap (edited edit) h.lead;
}

-- the first edit is made in the cells from before
front_is : (edits : List Edit) (edit : Edit) → 0 < length edits → edit ≡ get_or edits 0 edit → edits ≡ edit ∷ drop 1 edits
front_is [] edit some is = absurd (omega (arith, some))
front_is (first ∷ edits) edit some is = ap (λ e. e ∷ edits) (sym is)

module _ (edits : List Edit) (edit : Edit) (before : List Entry) (some : 0 < length edits) (is : edit ≡ get_or edits 0 edit) (all : AreAllowed edits before) where
  parted : AreAllowed (edit ∷ drop 1 edits) before
  parted = subst (λ es. AreAllowed es before) (front_is edits edit some is) all

  pub allowed_first : IsAllowed edit before
  allowed_first = parted.0

  pub allowed_rest : (rest : List Edit) (next : List Entry) → rest ≡ drop 1 edits → next ≡ edited edit before → AreAllowed rest next
  allowed_rest rest next rest_is next_is = rw (rest_is, next_is) parted.1

  pub led_rest : (rest : List Edit) (next : List Entry) → rest ≡ drop 1 edits → next ≡ edited edit before → edited_by rest next ≡ edited_by edits before
  led_rest rest next rest_is next_is = rw (rest_is, next_is) (sym (ap (λ es. edited_by es before) (front_is edits edit some is)))

pub none_left : (edits : List Edit) → (0 < length edits → ⊥) → edits ≡ []
none_left [] h = refl
none_left (first ∷ edits) h = absurd (h (omega arith))
