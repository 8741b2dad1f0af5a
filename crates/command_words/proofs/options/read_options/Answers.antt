use Rattle.std.proofs.Common.{map, string_bytes}
use Rattle.command_words.specs.Reading.{given_by}
use Rattle.command_words.proofs.ReadLemmas.{all_read, none_first, one_more, one_pushed, words_left, no_words_left, full}
use Rattle.command_words.proofs.options.read_options.Goals as goal

pub returns-in_default : goal.returns-in_default
returns-in_default c =
    none_first (map string_bytes c.args.words.now) (map given_by c.loop-rest.given.items) (map string_bytes c.loop-rest.rest.now) c.loop-rest.invariant
    (words_left string_bytes c.loop-rest.rest.now c.is_empty.result c.is_empty.ensures c.loop-rest-test.true) c.in_default.ensures.first

pub returns-then-is_full : goal.returns-then-is_full
returns-then-is_full c =
    one_more (map string_bytes c.args.words.now) (map given_by c.loop-rest.given.items) (map string_bytes c.loop-rest.rest.now)
    (given_by c.in-Some.option) (map string_bytes c.in-Some.behind.now) c.loop-rest.invariant c.in-Some.ensures.first
    (full c.loop-rest.given.items c.is_full.result c.is_full.ensures.value c.if-is_full.true)

pub loop-rest-preserved : goal.loop-rest-preserved
loop-rest-preserved c =
    one_pushed (map string_bytes c.args.words.now) c.loop-rest.given.items (map string_bytes c.loop-rest.rest.now)
    c.in-Some.option (map string_bytes c.in-Some.behind.now) c.push.new.self.items c.push.ensures.items c.loop-rest.invariant c.in-Some.ensures.first

pub returns : goal.returns
returns c =
    all_read (map string_bytes c.args.words.now) (map given_by c.loop-rest.given.items) (map string_bytes c.loop-rest.rest.now) c.loop-rest.invariant
    (no_words_left string_bytes c.loop-rest.rest.now c.is_empty.result c.is_empty.ensures c.loop-rest-test.false)
