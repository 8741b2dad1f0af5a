-- What was read whole is the input.
use Rattle.std.specs.Prelude.{◌≡◌, IfSome}
use Rattle.std.proofs.Common.{List, ℕ, subst}
use Rattle.std.proofs.lemmas.Result.{IfErr-weaker, IfOk-weaker}
use Rattle.devices.specs.Faults.{Rose}
use Rattle.draw.specs.Runs.{IsEndUnread, IsPictureOf, IsSilent, IsUndrawn}
use Rattle.draw.specs.declared.runs.RunEnd.TheVariants.{InputFault}
use Rattle.draw.proofs.RunLemmas.{picture_of_input, undrawn_is_read, undrawn_is_silent, undrawn_of_input}
use Rattle.draw.proofs.runs.picture_on.Goals as goal

pub returns-clause-drawn : goal.returns-clause-drawn
returns-clause-drawn g c =
    IfOk-weaker c.picture_of.result (IsPictureOf c.as_slice.result.now) (λ picture. IfSome (g.S.Source.left c.args.source.now) (λ input. IsPictureOf input picture))
    (λ picture made. picture_of_input (g.S.Source.left c.args.source.now) (g.S.Source.left c.read_whole.new.source) c.in_ok-input.input picture
    c.in_ok-input.ensures.whole (subst (λ (t : List ℕ). IsPictureOf t picture) c.as_slice.ensures made))
    c.picture_of.ensures.drawn

pub returns-clause-undrawn : goal.returns-clause-undrawn
returns-clause-undrawn g c =
    IfErr-weaker c.picture_of.result (IsUndrawn c.as_slice.result.now) (λ end. IsEndUnread end (g.S.Source.left c.args.source.now))
    (λ end why. undrawn_of_input (g.S.Source.left c.args.source.now) (g.S.Source.left c.read_whole.new.source) c.in_ok-input.input end
    c.in_ok-input.ensures.whole (subst (λ (t : List ℕ). IsUndrawn t end) c.as_slice.ensures why))
    c.picture_of.ensures.undrawn

pub returns-clause-silent : goal.returns-clause-silent
returns-clause-silent g c =
    IfErr-weaker c.picture_of.result (IsUndrawn c.as_slice.result.now) IsSilent (undrawn_is_silent c.as_slice.result.now) c.picture_of.ensures.undrawn

pub returns-clause-cause : goal.returns-clause-cause
returns-clause-cause g c =
    IfErr-weaker c.picture_of.result (IsUndrawn c.as_slice.result.now)
    (λ end. end ≡ InputFault → Rose (g.S.Source.faults c.args.source.now) (g.S.Source.faults c.read_whole.new.source))
    (λ end why fault. absurd (undrawn_is_read c.as_slice.result.now end why fault)) c.picture_of.ensures.undrawn
