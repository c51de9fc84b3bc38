use Rattle.std.proofs.Common.{rules, sym, ◌∙◌}
use Rattle.std.proofs.lemmas.Result.{err_from_is_err_and}
use Rattle.wat_links.proofs.FlagList.{more_left, none_more, flags_begin, flags_go_on, flags_end, flags_fail, flags_less}
use Rattle.wat_links.proofs.flags.read_flags.Goals as goal

pub flags-init : goal.flags-init
flags-init c = record { exact = flags_begin c.args.parser.now.left; counts = search rules; turned = search rules; cost = search rules; settings = search rules }

pub flags-smaller : goal.flags-smaller
flags-smaller c = flags_less _ c.flags.parser.left c.read_flag.new.parser.left c.in_ok-flags.ensures.reads.exact

pub flags-preserved : goal.flags-preserved
flags-preserved c = record {
  exact = sym (flags_go_on c.flags.flags _ c.flags.parser.left c.read_flag.new.parser.left (more_left c.flags.parser.left c.is_empty.result c.is_empty.ensures c.flags-test.true) c.in_ok-flags.ensures.reads.exact) ∙ c.flags.invariant.exact;
  counts = search rules;
  turned = search rules;
  cost = search rules;
  settings = search rules;
}

pub returns : goal.returns
returns c = record {
  reads = record {
    exact = sym c.flags.invariant.exact ∙ flags_end c.flags.flags c.flags.parser.left (none_more c.flags.parser.left c.is_empty.result c.is_empty.ensures c.flags-test.false);
    counts = search rules;
    cost = search rules;
    settings = search rules;
  };
}

pub returns-in_err-flags : goal.returns-in_err-flags
returns-in_err-flags c =
    let p = err_from_is_err_and c.from_residual.result c.from_residual.ensures.1 in
    record {
      reads = record {
        exact = rw (p.1, p.2) (sym c.flags.invariant.exact ∙ flags_fail c.flags.flags c.flags.parser.left (more_left c.flags.parser.left c.is_empty.result c.is_empty.ensures c.flags-test.true) c.in_err-flags.ensures.reads.exact.0, c.in_err-flags.ensures.reads.exact.1);
        counts = search rules;
        cost = search rules;
        settings = search rules;
      };
    }
