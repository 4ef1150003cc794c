use Rattle.std.proofs.Common.{arith, refl}
use Rattle.zsv_parts.proofs.WholeNames.{sectioned}
use Rattle.zsv_parts.proofs.question.Queries.read.Goals as goal

pub invariant_of-result : goal.invariant_of-result
invariant_of-result c =
    let there = sectioned c.args.decoder.now.octets c.read_questions.new.decoder.octets c.args.decoder.now.index c.index-start.result c.read_questions.new.decoder.index c.args.count c.in_ok-queries.queries.items c.in_ok-original.original.now
    c.read_questions.ensures.same c.index-start.ensures.value (c.read_questions.ensures.within (omega (arith, c.index-start.ensures.within, c.index-start.ensures.value))) c.in_ok-queries.ensures.ok c.in_ok-original.ensures.ok in
    record {
      few = omega (arith, there.questions.1, c.ranges.count.fits);
      message = c.args.decoder.now.octets;
      place = c.args.decoder.now.index;
      end = c.read_questions.new.decoder.index;
      there = record { questions = (there.questions.0, refl); octets = there.octets };
    }

pub returns-clause-ok : goal.returns-clause-ok
returns-clause-ok c =
    sectioned c.args.decoder.now.octets c.read_questions.new.decoder.octets c.args.decoder.now.index c.index-start.result c.read_questions.new.decoder.index c.args.count c.in_ok-queries.queries.items c.in_ok-original.original.now
    c.read_questions.ensures.same c.index-start.ensures.value (c.read_questions.ensures.within (omega (arith, c.index-start.ensures.within, c.index-start.ensures.value))) c.in_ok-queries.ensures.ok c.in_ok-original.ensures.ok
