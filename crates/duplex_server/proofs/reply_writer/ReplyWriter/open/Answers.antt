use Rattle.duplex_server.proofs.reply_writer.ReplyWriter.open.Goals as goal

pub returns-clause-stands : goal.returns-clause-stands
returns-clause-stands g c = λ first parts s h.
    let e = c.new.ensures in
    let p = c.put_part.ensures in
    record {
      given = p.given first parts h.given;
      is_at = λ done. record {
        limits_are = e.limits;
        mode_is = e.mode;
        kind_is = e.kind;
        moment_is = e.state;
        table_is = e.names;
      };
      little = p.little;
    }
