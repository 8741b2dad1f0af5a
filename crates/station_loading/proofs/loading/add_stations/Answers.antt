use Rattle.std.proofs.Common.{◌++◌, ◌∷◌, [], arith, rules, refl}
use Rattle.desk.proofs.SessionLemmas.{wrote_reply}
use Rattle.shared_office.proofs.StretchLemmas.{passes_more}
use Rattle.station_loading.proofs.TakenLemmas.{none_more, one_more}
use Rattle.station_loading.specs.Lines.{end_of}
use Rattle.told_edits.proofs.LineLemmas.{sent_more}
use Rattle.told_edits.proofs.TellingLemmas.{told_all, told_short}
use Rattle.station_loading.proofs.loading.add_stations.Goals as goal

pub returns-then-not-add_station-clause-told : goal.returns-then-not-add_station-clause-told
returns-then-not-add_station-clause-told g c =
    let kept = c.loop-edit.invariant.2 in
    let line = c.if-not-add_station.ensures.told in
    let more = one_more c.args.edits.items c.loop-edit.yielded c.loop-edit.edit-iterator c.next.new.self c.next.result c.in-Some.edit c.in-Some.is c.next.ensures.steps kept.whole kept.count in
    told_short end_of c.args.office.now.register.history c.loop-edit.office.register.history c.add_station.new.office.register.history
    c.args.edits.items c.loop-edit.yielded _ c.in-Some.edit kept.lines line.0
    (g.K.Sink.written c.args.sink.now) (g.K.Sink.written c.loop-edit.sink) (g.K.Sink.written c.add_station.new.sink)
    kept.added line.1 more.0 kept.wrote line.2

pub returns-then-not-add_station-clause-passed : goal.returns-then-not-add_station-clause-passed
returns-then-not-add_station-clause-passed g c =
    passes_more g.D.Disk c.args.office.now.register.history c.loop-edit.office.register.history c.add_station.new.office.register.history
    c.args.office.now.disk c.loop-edit.office.disk c.add_station.new.office.disk c.loop-edit.invariant.2.passed c.add_station.ensures.passed

pub returns-clause-told : goal.returns-clause-told
returns-clause-told g c =
    let kept = c.loop-edit.invariant.2 in
    told_all end_of c.args.office.now.register.history c.loop-edit.office.register.history c.args.edits.items c.loop-edit.yielded kept.lines
    (g.K.Sink.written c.args.sink.now) (g.K.Sink.written c.loop-edit.sink) kept.added
    (none_more c.args.edits.items c.loop-edit.yielded c.loop-edit.edit-iterator c.next.new.self c.next.result c.in-None.is c.next.ensures.steps
    kept.whole kept.count) kept.wrote

pub loop-edit-preserved : goal.loop-edit-preserved
loop-edit-preserved g c =
    let kept = c.loop-edit.invariant.2 in
    let line = c.if-not-add_station.ensures.told in
    let more = one_more c.args.edits.items c.loop-edit.yielded c.loop-edit.edit-iterator c.next.new.self c.next.result c.in-Some.edit c.in-Some.is c.next.ensures.steps kept.whole kept.count in (
      tt,
      tt,
      record {
        whole = more.0;
        count = more.1;
        lines = kept.lines ++ line.0 ∷ [];
        added = sent_more end_of c.args.office.now.register.history c.loop-edit.office.register.history c.add_station.new.office.register.history
            c.loop-edit.yielded kept.lines c.in-Some.edit line.0 kept.added line.1;
        wrote = wrote_reply (g.K.Sink.written c.args.sink.now) (g.K.Sink.written c.loop-edit.sink) (g.K.Sink.written c.add_station.new.sink)
            kept.lines line.0 kept.wrote line.2;
        passed = passes_more g.D.Disk c.args.office.now.register.history c.loop-edit.office.register.history c.add_station.new.office.register.history
            c.args.office.now.disk c.loop-edit.office.disk c.add_station.new.office.disk kept.passed c.add_station.ensures.passed;
        disk_counted = omega (arith, kept.disk_counted, c.add_station.ensures.disk_counted);
        output_counted = omega (arith, kept.output_counted, c.add_station.ensures.output_counted);
      },
    )

pub loop-edit-init : goal.loop-edit-init
loop-edit-init g c = (
  tt,
  tt,
  record {
    whole = search rules;
    count = search rules;
    lines = [];
    added = refl;
    wrote = search rules;
    passed = c.stands_still.ensures;
    disk_counted = omega arith;
    output_counted = omega arith;
  },
)
