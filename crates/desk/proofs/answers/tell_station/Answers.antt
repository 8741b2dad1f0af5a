use Rattle.std.proofs.Common.{◌≡◌, refl, ◌∙◌, ap}
use Rattle.desk.specs.Replies.{answer_bytes, station_reply}
use Rattle.http_api.specs.Replies.{bytes_of}
use Rattle.http_api.specs.Stations.{station_text}
use Rattle.http_api.specs.declared.replies.Reply.TheVariants as replies
use Rattle.desk.proofs.AnswerLemmas.{on_ok}
use Rattle.desk.proofs.answers.tell_station.Goals as goal

pub returns-in-Some : goal.returns-in-Some
unfolding bytes_of
returns-in-Some g c =
    let same : bytes_of (replies.Station c.in-Some.station) ≡ answer_bytes (station_text c.in-Some.station.now.station) = refl in
    on_ok c.make.result _ _ (λ is. is ∙ same ∙ ap station_reply c.in-Some.ensures) c.make.ensures
