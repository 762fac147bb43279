-- The text of records, one after the other.
use Rattle.std.proofs.Common.{◌≡◌, ◌<◌, ℕ, ◌+◌, List, [], ◌∷◌, ◌++◌, take, drop, length, get_or, Option, sym, ap, ◌∙◌}
use Rattle.std.{specs.Io.KnownBytes.append_known, proofs.lemmas.List.{append-nil, take-append-drop, take_more}, proofs.lemmas.Grind.flat_map-append}
use Rattle.tick_io.proofs.Prefixes.{append_known-append_known}
use Rattle.tick_model.specs.Texts.{record_text, records_text}

module _ (records : List (List (List ℕ))) (i : ℕ) (fields : List (List ℕ)) (less : i < length records) (is : fields ≡ get_or records i fields) where
  pub text_more : records_text (take (i + 1) records) ≡ records_text (take i records) ++ record_text fields
  text_more =
      ap records_text (take_more records i fields less)
      ∙ flat_map-append record_text (take i records) (get_or records i fields ∷ [])
      ∙ ap (λ more. records_text (take i records) ++ more) (append-nil (record_text (get_or records i fields)) ∙ ap record_text (sym is))

  pub text_splits : (records_text (take i records) ++ record_text fields) ++ records_text (drop (i + 1) records) ≡ records_text records
  text_splits =
      ap (λ text. text ++ records_text (drop (i + 1) records)) (sym text_more)
      ∙ sym (flat_map-append record_text (take (i + 1) records) (drop (i + 1) records))
      ∙ ap records_text (take-append-drop (i + 1) records)

  -- these fields are written after the records before them
  pub written_next : (old mid new : Option (List ℕ)) → mid ≡ append_known old (records_text (take i records)) → new ≡ append_known mid (record_text fields) → new ≡ append_known old (records_text (take (i + 1) records))
  written_next old mid new before after =
      after ∙ ap (λ known. append_known known (record_text fields)) before ∙ append_known-append_known old (records_text (take i records)) (record_text fields) ∙ ap (append_known old) (sym text_more)
