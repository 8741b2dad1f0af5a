-- A turn takes one byte.
use Rattle.std.proofs.Common.{◌∙◌, ap, sym, ℕ, length, take, drop, ◌-◌, arith, slice_index_or}
use Rattle.logger_files.specs.Digests.{digest_from}
use Rattle.logger_files.proofs.ChunkLemmas.{digest_end, digest_more}
use Rattle.logger_files.proofs.LineLemmas.{split_first}
use Rattle.logger_files.proofs.digests.digest_from.Goals as goal

pub loop-rest-preserved : goal.loop-rest-preserved
loop-rest-preserved c =
    let text = c.loop-rest.rest.now in
    record {
      value =
          c.loop-rest.invariant.value ∙ ap (digest_from c.loop-rest.digest) (split_first text c.in-len1-up.len_at_least)
          ∙ digest_more c.loop-rest.digest (slice_index_or text 0 0) (take (length text - 1) (drop 1 text))
          ∙ ap (λ (d : ℕ). digest_from d (take (length text - 1) (drop 1 text))) (sym c.digest_byte-digest.ensures.value);
      below = c.digest_byte-digest.ensures.below;
    }

pub returns-clause-value : goal.returns-clause-value
returns-clause-value c = sym (c.loop-rest.invariant.value ∙ digest_end c.loop-rest.digest c.loop-rest.rest.now (omega (arith, c.in_default.len_below)))
