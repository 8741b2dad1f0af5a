-- What holds before any event and is kept by each event of an orderly history holds of it.
use Rattle.std.specs.Prelude.{List, [], ◌∷◌, ◌++◌}
use Rattle.std.proofs.Common.{sym, subst}
use Rattle.std.proofs.lemmas.List.{append-nil, append_assoc}
use Rattle.history.specs.Events.{Event}
use Rattle.history.specs.Legal.{IsOrderly}
use Rattle.office_inputs.specs.declared.limits.Limits.{Limits}
use Rattle.records.specs.declared.formats.Format.{Format}

module _ (limits : Limits) (format : Format) (P : List Event → Type 0)
    (each : (done since : List Event) (e : Event) → IsOrderly limits format (done ++ e ∷ since) → P done → P (done ++ e ∷ [])) where
  along : (since done : List Event) → IsOrderly limits format (done ++ since) → P done → P (done ++ since)
  along [] done k had = subst P (sym (append-nil done)) had
  along (e ∷ since) done k had =
      let whole = append_assoc done (e ∷ []) since in
      subst P whole (along since (done ++ e ∷ []) (subst (IsOrderly limits format) (sym whole) k) (each done since e k had))

  pub by_events : P [] → (events : List Event) → IsOrderly limits format events → P events
  by_events none events k = along events [] k none
