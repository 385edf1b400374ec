use Rattle.std.proofs.Common.{rules, map}
use Rattle.gl_args.specs.Items.{item_in}
use Rattle.gl_args.specs.Tools.{options_of}
use Rattle.gl_args.proofs.SameOptions.{same_options}
use Rattle.gl_args.proofs.tool.opts_of.Goals as goal

pub returns-clause-ok : goal.returns-clause-ok
returns-clause-ok c =
    same_options _ (options_of c.args.name (map item_in c.args.items.now))
    (record {
      chip = search rules;
      by_name = search rules;
      strict = search rules;
      unquoted = search rules;
      numeric = search rules;
      active_low = search rules;
      bias = search rules;
      drive = search rules;
      edges = search rules;
      period_us = search rules;
      count = search rules;
      format = search rules;
      consumer = search rules;
      lines = search rules;
    })
