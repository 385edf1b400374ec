pub mod Irq
